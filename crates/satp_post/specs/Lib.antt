pub mod Posting
pub mod Laws
