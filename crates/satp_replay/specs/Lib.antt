pub mod Replaying
pub mod Faults
