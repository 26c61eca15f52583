pub mod Mappers
pub mod Sound
pub mod Programs
pub mod Next
pub mod Faults
