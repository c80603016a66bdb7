pub mod AtGateway
pub mod ShowLines
pub mod Showing
pub mod Aborting
