pub mod Owners
pub mod Books
