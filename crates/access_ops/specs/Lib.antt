pub mod Operations
pub mod OpRunValue
pub mod laws
