-- What holds of every text of lines, by what holds of one line.
pub mod OneOutcome
pub mod TextLaws
pub mod ReadingOn
pub mod OneLine
pub mod FirstFault
pub mod OneText
pub mod SomeText
pub mod AnsweredLines
pub mod HandedOn
