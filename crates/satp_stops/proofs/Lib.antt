pub mod Changes
pub mod Stopping
pub mod Points
pub mod Reopening
pub mod Telling
