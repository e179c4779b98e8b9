pub mod MadeRuns
pub mod Drawn
pub mod Legal
pub mod MadeTags
