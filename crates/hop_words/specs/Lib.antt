pub mod Clap
pub mod Marks
pub mod Names
pub mod Numbers
pub mod Options
pub mod Scan
pub mod Table
