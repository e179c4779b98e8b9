pub mod NextOperation
pub mod OperationLaws
pub mod LegalCommands
pub mod BehindMoves
pub mod DialogueLaws
pub mod Running
