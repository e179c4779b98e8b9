pub mod RoundLaws
pub mod RoundFacts
