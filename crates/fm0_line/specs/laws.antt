-- FM0 keeps the laws of a line code.
pub mod Fm0
