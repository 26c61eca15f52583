pub mod Noted
pub mod SharedLogs
pub mod PlainBoards
