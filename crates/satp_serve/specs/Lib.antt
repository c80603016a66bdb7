pub mod Replies
pub mod Faults
pub mod Exchange
pub mod Feeding
pub mod Connections
pub mod Laws
pub mod Codes
pub mod GatewayReplies
