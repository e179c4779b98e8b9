pub mod Over
pub mod InRoom
pub mod Readable
