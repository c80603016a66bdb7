pub mod Founded
pub mod Points
pub mod ClosedLaw
pub mod OpenedLaw
pub mod SuccessLaw
