pub mod Reads
pub mod Rows
pub mod Stored
pub mod Vaults
