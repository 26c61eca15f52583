pub mod Acting
pub mod Counting
pub mod Spilled
pub mod Named
pub mod Calls
