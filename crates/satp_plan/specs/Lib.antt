pub mod Plans
pub mod Outlines
