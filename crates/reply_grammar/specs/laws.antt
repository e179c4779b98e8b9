-- Laws of the definitions of replies, which crates above use as well.
pub mod Passing
pub mod PassingReplies
pub mod Reading
pub mod SomeReply
