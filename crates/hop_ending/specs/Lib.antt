pub mod Cuts
pub mod Doomed
pub mod Reached
pub mod WorkedCuts
pub mod Workers
