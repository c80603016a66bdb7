pub mod Turns
pub mod Lines
pub mod Refusals
pub mod DriveEnds
