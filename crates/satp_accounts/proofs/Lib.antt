pub mod OwnerLemmas
pub mod StepLemmas
pub mod SumLemmas
pub mod BeginLemmas
