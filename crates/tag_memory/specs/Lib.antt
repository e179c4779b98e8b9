pub mod ReadsAndWrites
pub mod Image
pub mod Memory
