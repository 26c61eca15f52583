pub mod Lines
pub mod Setups
pub mod Messages
pub mod Boards
pub mod Locks
pub mod Samples
pub mod Shelved
