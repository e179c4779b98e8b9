mod EmptyTexts
mod MaskDigits
mod NoSelect
pub mod NameLists
mod PayloadDigits
mod Pieces
pub mod CommandTexts
pub mod EachCommand
pub mod CommandFieldTexts
pub mod CommandsToldApart
pub mod PasswordWords
pub mod Cuts
pub mod ExpectationFieldTexts
pub mod ReplyTexts
pub mod ExpectationsToldApart
