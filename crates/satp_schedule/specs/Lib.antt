pub mod Lines
pub mod Fields
pub mod Generator
pub mod Made
pub mod Transfers
pub mod Verbs
