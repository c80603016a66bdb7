pub mod Openings
pub mod Refusing
pub mod Places
pub mod Works
