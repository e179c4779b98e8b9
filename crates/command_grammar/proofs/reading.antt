-- What reading does, field by field and bit by bit, and that it is what the spellings of commands say.
pub mod ChoiceTables
pub mod EachCommand
pub mod EachField
pub mod EbvFields
pub mod EbvFronts
pub mod ExactFields
pub mod FieldRests
pub mod FieldStages
pub mod FieldsInOrder
pub mod KnownBits
pub mod NamedFields
pub mod NumberFields
pub mod Readers
pub mod Resuming
pub mod WholeReading
pub mod WordFields
