pub mod AskedLaws
pub mod ChainLaws
pub mod ClapAgrees
pub mod ClapRules
pub mod ClapRows
pub mod ClapWalk
pub mod MarksLaws
pub mod NumberLaws
