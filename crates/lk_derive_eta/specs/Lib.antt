pub mod Open
pub mod Units
pub mod Texts
pub mod Structures
pub mod Tails
