pub mod PieceLemmas
pub mod Failing
pub mod Scanning
pub mod AppendLemmas
pub mod OpenLemmas
pub mod Copying
