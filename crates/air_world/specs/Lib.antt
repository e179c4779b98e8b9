pub mod NewAir
pub mod Telling
pub mod Saying
pub mod Playing
pub mod Listing
pub mod Counting
pub mod laws
