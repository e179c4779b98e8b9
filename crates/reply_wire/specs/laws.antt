-- Laws of the four line codes, and that levels are always received in some way.
pub mod Codes
pub mod SomeReceived
