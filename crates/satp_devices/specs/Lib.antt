pub mod Counting
pub mod OpenStreams
pub mod Places
pub mod Untold
