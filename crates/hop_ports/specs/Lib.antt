pub mod Views
pub mod Causes
pub mod Counts
pub mod Files
pub mod Clean
pub mod Memory
pub mod Disk
pub mod Sinks
