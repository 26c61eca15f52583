pub mod NameLaws
pub mod ReadLaws
pub mod RowLaws
pub mod SoundLaws
pub mod StretchLaws
