pub mod Driven
pub mod Folders
pub mod Given
pub mod Named
pub mod Replayed
pub mod Snapshots
