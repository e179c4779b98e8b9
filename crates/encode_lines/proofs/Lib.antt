pub mod OneReading
pub mod Shapes
pub mod OneLine
pub mod ReadFields
