pub mod DivisionSteps
pub mod Registers
pub mod Residue
pub mod WholeWords
