pub mod Exchanged
pub mod Waves
pub mod DumpValue
pub mod Borrowed
