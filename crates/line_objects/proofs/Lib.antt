pub mod TextValues
pub mod SentMembers
pub mod NumbersRead
pub mod FieldPairs
pub mod EpcFields
pub mod ObjectLines
