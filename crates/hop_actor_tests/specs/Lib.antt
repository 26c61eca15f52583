pub mod TwoSplits
pub mod Seats
pub mod Worlds
pub mod Benches
pub mod Runs
