mod EventTexts
mod LineTexts
mod TagLines
mod Walks
mod Checking
mod PlayedParts
mod HeardAnswers
mod FaultyLines
mod Effects
pub mod SeenTexts
pub mod LogLaws
pub mod WordBehind
pub mod Entries
pub mod Beginning
pub mod LegalLogs
pub mod Standing
pub mod VocabularyDecided
pub mod CommandsDecided
pub mod RepliesDecided
pub mod LinesDecided
pub mod LogsComplete
