pub mod Images
pub mod Books
pub mod KeptJournals
pub mod Mends
pub mod Proposals
pub mod NoWords
