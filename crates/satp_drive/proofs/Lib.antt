pub mod Beginning
pub mod DriveLaw
pub mod HeardBytes
pub mod Talking
