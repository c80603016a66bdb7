pub mod Slots
pub mod OwnLemmas
pub mod Naming
pub mod Found
pub mod ChainLemmas
pub mod TakeLemmas
pub mod HearLemmas
pub mod RecoverLemmas
