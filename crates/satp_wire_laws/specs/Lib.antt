pub mod TwoEnds
pub mod Wired
