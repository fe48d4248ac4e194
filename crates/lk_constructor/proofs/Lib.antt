pub mod Giving
pub mod Applied
