pub mod Saying
pub mod Walking
pub mod CompleteLaw
pub mod Asks
pub mod QuietLaw
