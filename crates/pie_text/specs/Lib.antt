pub mod FieldEnd
pub mod NumberLists
pub mod PieText
pub mod Spelling
pub mod laws
