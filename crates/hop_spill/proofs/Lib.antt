pub mod FieldLaws
pub mod LoopLaws
pub mod PairLaws
pub mod PieceLaws
pub mod PlaceLaws
pub mod SheetLaws
pub mod SpillLaws
