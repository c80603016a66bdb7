mod BlockLemmas
pub mod HeaderLemmas
mod PartLemmas
mod VerifyLemmas
pub mod DecodedBytes
