pub mod Request
pub mod Written
pub mod EncodeLines
