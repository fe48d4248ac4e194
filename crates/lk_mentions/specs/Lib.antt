pub mod Names
pub mod Parts
pub mod Walks
pub mod Pis
pub mod Fields
pub mod Structures
