pub mod CommandText
pub mod NameLists
pub mod FieldNames
pub mod PasswordsAndLocks
pub mod ReplyText
