pub mod Calling
pub mod Drives
pub mod Conversing
pub mod Driving
pub mod Laws
pub mod AtPoints
