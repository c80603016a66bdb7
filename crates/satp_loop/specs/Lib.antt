pub mod Mails
pub mod Peers
pub mod Lines
pub mod Following
pub mod FollowingLaws
pub mod Counting
pub mod LineLaws
