pub mod Answers
pub mod Drains
pub mod Held
