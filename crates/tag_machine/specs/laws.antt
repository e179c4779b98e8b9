pub mod Isolation
pub mod Extended
pub mod AnswersByCommand
pub mod DrawCounts
