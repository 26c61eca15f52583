pub mod Calling
pub mod Cutting
pub mod Growing
pub mod Lanes
pub mod Safety
pub mod Sheets
