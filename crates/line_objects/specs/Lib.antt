pub mod MemberNames
pub mod LineMembers
pub mod Values
pub mod Objects
pub mod Members
pub mod PlainText
