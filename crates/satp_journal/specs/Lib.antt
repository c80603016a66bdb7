pub mod State
pub mod Pieces
pub mod Appending
pub mod Opening
pub mod Listing
pub mod Scanned
