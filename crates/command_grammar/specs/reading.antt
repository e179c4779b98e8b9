-- Reading a command from left to right: field by field over a list of bits, and bit by bit with what is kept between them.
pub mod CheckNumbers
pub mod Codes
pub mod CommandFields
pub mod FieldRanges
pub mod FieldStages
pub mod Framing
pub mod KnownBits
pub mod Readers
