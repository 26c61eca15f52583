pub mod Noted
pub mod Logs
pub mod PlainLanes
