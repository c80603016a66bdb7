pub mod Outside
pub mod Outcomes
pub mod Lines
pub mod Streams
pub mod Texts
