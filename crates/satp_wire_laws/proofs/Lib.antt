pub mod WrittenHeads
pub mod Fronts
pub mod Serving
pub mod Answering
pub mod Meeting
pub mod Connecting
pub mod WiredLaw
