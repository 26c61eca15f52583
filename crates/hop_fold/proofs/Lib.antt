pub mod FoldingLaws
pub mod LineLaws
pub mod Standing
pub mod WithinLaws
