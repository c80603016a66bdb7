pub mod Reports
pub mod Benches
pub mod Exchanges
pub mod Commands
pub mod Drills
pub mod Laws
pub mod Rows
