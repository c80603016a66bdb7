pub mod Unspent
pub mod Steps
pub mod States
pub mod Laws
