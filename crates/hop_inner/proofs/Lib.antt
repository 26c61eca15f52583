pub mod LockSteps
pub mod Safety
pub mod Allowing
