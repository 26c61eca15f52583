pub mod Held
pub mod Fits
pub mod Faults
