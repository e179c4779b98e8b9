pub mod DumpTexts
pub mod FieldsWithByte
