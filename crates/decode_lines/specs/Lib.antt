pub mod Request
pub mod Answer
pub mod DecodeLines
pub mod Answered
