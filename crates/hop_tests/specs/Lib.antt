pub mod Initials
pub mod Sample
