pub mod Masks
pub mod PureGroups
pub mod SlicedSoFar
pub mod SomeAnswer
pub mod OneAnswer
pub mod Samples
