pub mod Seen
pub mod Names
pub mod Parts
pub mod Walks
pub mod Members
pub mod Scans
