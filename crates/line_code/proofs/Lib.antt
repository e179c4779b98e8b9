pub mod Buffer
pub mod Whole
pub mod Steps
pub mod Writing
pub mod MasksLemmas
pub mod Rows
