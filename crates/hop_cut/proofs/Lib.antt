pub mod AcceptLaws
pub mod DueLaws
pub mod FoldedRuns
pub mod HeadLaws
pub mod LineLaws
pub mod NameLaws
pub mod NumberLaws
pub mod TextLaws
