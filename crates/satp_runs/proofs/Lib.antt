pub mod Reading
pub mod Stepping
pub mod OneSideLaw
pub mod Asks
