pub mod OutputLemmas
pub mod BeginLemmas
pub mod MoveLemmas
pub mod NumberLemmas
