pub mod Later
pub mod Notes
pub mod Puts
pub mod Snapshots
pub mod Writers
