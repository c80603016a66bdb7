pub mod AsksLaw
