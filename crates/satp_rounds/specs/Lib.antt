pub mod Funds
pub mod Rounds
pub mod Transfers
pub mod Conversations
pub mod NewSessions
pub mod RoundRows
pub mod Resumptions
pub mod LedgerFunds
