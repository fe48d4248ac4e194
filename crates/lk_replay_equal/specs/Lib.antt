pub mod Parts
pub mod Pairs
pub mod Texts
pub mod Structures
pub mod Units
pub mod Numbers
