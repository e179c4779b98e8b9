pub mod Decided
pub mod LeadingNumbers
pub mod Numerals
pub mod PairTexts
pub mod WaveLength
