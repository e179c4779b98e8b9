pub mod Masks
pub mod Samples
pub mod SlicedTo
pub mod laws
