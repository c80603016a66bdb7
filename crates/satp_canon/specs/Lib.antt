pub mod Commas
pub mod FirstFault
pub mod Reads
