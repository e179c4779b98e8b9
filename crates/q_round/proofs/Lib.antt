pub mod RoundLaws
pub mod RoundFacts
pub mod TurnFacts
pub mod RoundAnswers
pub mod SlotLaws
