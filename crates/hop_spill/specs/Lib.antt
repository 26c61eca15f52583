pub mod Answers
pub mod Pieces
pub mod Reading
pub mod Spelling
pub mod SpillFiles
