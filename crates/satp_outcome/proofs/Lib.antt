pub mod Reading
pub mod Writing
pub mod Ends
pub mod Inputs
pub mod Lines
