pub mod Rule
pub mod Tales
mod Aborts
