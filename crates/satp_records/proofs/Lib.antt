pub mod Fields
pub mod Lists
pub mod Records
pub mod Decoding
pub mod Joins
pub mod Lengths
pub mod Payloads
