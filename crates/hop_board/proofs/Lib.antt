pub mod SharedLogLaws
pub mod Places
pub mod Ends
pub mod Counts
pub mod Known
pub mod Starts
pub mod BoardSteps
pub mod BoardKeeps
