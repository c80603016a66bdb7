pub mod Keeping
pub mod NamingLemmas
pub mod CountLemmas
pub mod OpenLemmas
