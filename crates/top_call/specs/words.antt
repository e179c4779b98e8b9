-- What each word of the command line does.
pub mod Audit
pub mod Decode
pub mod Encode
pub mod Run
pub mod Names
pub mod Probe
pub mod Judge
pub mod Generate
pub mod OwnTexts
pub mod Upgrade
pub mod Objects
pub mod Portals
