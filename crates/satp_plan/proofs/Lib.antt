pub mod Collecting
pub mod Indexes
pub mod Makings
