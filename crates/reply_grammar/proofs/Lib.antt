pub mod Checks
pub mod OneReply
pub mod Writing
pub mod Replies
pub mod SamePairs
pub mod Suiting
