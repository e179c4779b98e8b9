pub mod ErrorCodes
pub mod Lock
pub mod Permissions
