pub mod PcAndEpc
pub mod Reception
pub mod Refusals
pub mod Replies
pub mod laws
pub use Rattle.bit_strings.specs.Words
