pub mod Homes
pub mod Beginnings
