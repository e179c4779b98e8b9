pub mod Rounds
pub mod SpecValue
pub mod NextAnswer
pub mod RoundValue
pub mod laws
