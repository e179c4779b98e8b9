pub mod Symbols
pub mod Places
