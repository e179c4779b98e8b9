pub mod Actions
pub mod Flags
pub mod MaskMatch
pub mod DrawList
pub mod laws
