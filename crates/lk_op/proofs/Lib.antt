pub mod Powers
pub mod Rounds
