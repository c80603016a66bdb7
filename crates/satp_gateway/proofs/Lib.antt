pub mod Establishing
pub mod Growing
pub mod Deciding
pub mod Stopping
pub mod Openings
pub mod Raising
pub mod Calling
pub mod Heard
