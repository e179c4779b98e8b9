pub mod AwaitedLaws
pub mod GivenLaws
pub mod LastItem
pub mod ReceptionLaws
