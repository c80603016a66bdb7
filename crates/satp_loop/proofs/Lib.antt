pub mod Counts
pub mod Keeping
pub mod PeerKeeping
pub mod Stepping
pub mod Telling
