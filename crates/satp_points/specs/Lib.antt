pub mod States
pub mod Decisions
pub mod Answers
pub mod Deciding
