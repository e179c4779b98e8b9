pub mod Counts
pub mod Sorting
pub mod Senders
pub mod Twins
pub mod Lines
pub mod Independence
pub mod Underway
