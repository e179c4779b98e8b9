pub mod BitString
pub mod Ebv
pub mod EbvAnswers
pub mod Family
pub mod NumbersInBits
pub mod Words
pub mod laws
pub mod ItemList
