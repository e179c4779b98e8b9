pub mod Channel
pub mod Reception
pub mod Past
