pub mod FourSymbols
pub mod Levels
