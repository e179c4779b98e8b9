pub mod Played
pub mod PortalLines
