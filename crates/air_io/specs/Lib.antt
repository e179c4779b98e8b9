pub mod Flow
pub mod Takes
pub mod Puts
pub mod Memory
pub mod ReadEnds
pub mod Standard
pub mod laws
