pub mod Hearing
pub mod Folding
pub mod States
pub mod Journals
pub mod Logged
