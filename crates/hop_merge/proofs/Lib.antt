pub mod MergeAllLaws
