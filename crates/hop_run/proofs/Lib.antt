pub mod HeadLaws
pub mod MakingLaws
pub mod MappingLaws
pub mod MergeLaws
pub mod RunLaws
