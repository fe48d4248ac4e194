pub mod Undenied
pub mod Added
pub mod Constructors
