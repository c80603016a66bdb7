pub mod Texts
pub mod KeyTexts
pub mod Listings
pub mod Zeros
pub mod OneCommand
