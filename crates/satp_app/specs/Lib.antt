pub mod Answer
pub mod Check
pub mod Replay
pub mod Init
pub mod Commands
pub mod Arguments
pub mod OneEnd
