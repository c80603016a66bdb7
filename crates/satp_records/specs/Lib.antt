pub mod Shapes
pub mod Formats
pub mod Reading
pub mod Views
pub mod Laws
