pub mod CheckNumbers
pub mod OneField
pub mod SpellingLaws
pub mod SpellingLengths
pub mod reading
