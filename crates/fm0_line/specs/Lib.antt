pub mod Fm0
pub mod Stays
pub mod laws
