pub mod Untold
pub mod Directories
pub mod Keeping
pub mod Ledgers
pub mod Sites
