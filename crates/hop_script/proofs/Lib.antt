pub mod NumberLemmas
pub mod TextLemmas
pub mod KeptLemmas
pub mod DraftLemmas
pub mod RestartLemmas
pub mod ReadLemmas
pub mod ScriptReading
pub mod TurnsReading
