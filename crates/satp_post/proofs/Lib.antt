pub mod Hearings
pub mod Ends
pub mod Measure
