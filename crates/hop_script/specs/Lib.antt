pub mod Text
pub mod Number
pub mod Lines
pub mod Script
pub mod Draft
pub mod Kept
pub mod TurnLines
