pub mod Chained
pub mod Verdicts
pub mod ChainLaws
