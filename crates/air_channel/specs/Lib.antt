pub mod Air
pub mod BufferSizes
pub mod Receiving
pub mod Giving
pub mod Lent
