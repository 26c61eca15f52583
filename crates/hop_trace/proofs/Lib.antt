pub mod EventLaws
pub mod TellingLaws
pub mod TextLaws
pub mod WritingLaws
