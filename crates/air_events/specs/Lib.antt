pub mod Entries
pub mod Cursor
pub mod TagNumbers
pub mod Streams
