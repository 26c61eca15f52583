pub mod Prefixes
pub mod LaneSteps
