pub mod Closed
pub mod Life
pub mod Success
