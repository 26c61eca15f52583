pub mod Best
pub mod FlatLaws
pub mod Fronts
pub mod Numerals
pub mod OrderLaws
pub mod RangesLaws
pub mod Sorted
pub mod Truth
