pub mod AnsweredLines
pub mod AskedOrFaulty
pub mod OneAnswer
pub mod OneReading
pub mod RightAnswers
pub mod SomeAnswer
