pub mod Lines
pub mod FaultLine
pub mod Binary
pub mod Hexadecimal
pub mod WordLists
pub mod CodeNames
pub mod NamedFields
pub mod laws
