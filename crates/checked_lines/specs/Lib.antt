pub mod FaultWords
pub mod TextRules
pub mod LineRules
pub mod Answered
pub mod laws
