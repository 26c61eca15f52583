pub mod Cuts
pub mod EndsLemmas
pub mod SplitsLemmas
