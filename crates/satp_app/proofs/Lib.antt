mod GivenWords
pub mod Genesis
pub mod SetUpEnds
pub mod OneEnd
pub mod OneReply
pub mod OneReplay
pub mod OneLine
pub mod OneInit
