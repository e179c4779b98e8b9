-- Laws of the definitions of line codes, which crates above use as well.
pub mod Existence
pub mod Flips
pub mod Lead
pub mod LevelTests
pub mod Reading
pub mod Splits
pub mod Streams
