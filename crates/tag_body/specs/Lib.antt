pub mod BodyValue
pub mod Draws
pub mod BodyFlags
pub mod MemoryAnswers
pub mod RoundNumbers
