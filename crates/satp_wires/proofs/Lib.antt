pub mod Traffic
pub mod Pieces
