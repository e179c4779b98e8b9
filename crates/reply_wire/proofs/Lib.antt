pub mod RepliesReceived
pub mod ReceivedLaws
pub mod Lengths
pub mod Preambles
