pub mod Crc
pub mod laws
