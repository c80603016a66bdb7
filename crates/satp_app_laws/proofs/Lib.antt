pub mod LinesLaw
pub mod OpeningLaw
