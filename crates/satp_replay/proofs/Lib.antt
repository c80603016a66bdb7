pub mod Sessions
pub mod Replayed
