pub mod AllWords
pub mod LastWords
