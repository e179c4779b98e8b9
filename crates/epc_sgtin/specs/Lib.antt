pub mod SgtinValue
pub mod Partitions
pub mod Epc
pub mod EpcFaults
pub mod Uri
pub mod UriFaults
pub mod SgtinText
