pub mod Eliminators
pub mod Quotients
