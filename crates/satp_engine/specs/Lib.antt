pub mod Working
pub mod Planning
pub mod Turning
pub mod Starting
pub mod Replies
pub mod Preparing
pub mod Carrying
