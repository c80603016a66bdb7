pub mod Whole
pub mod Pieces
