pub mod Peer
pub mod Undisturbed
pub mod Completing
pub mod Asks
pub mod Quiet
