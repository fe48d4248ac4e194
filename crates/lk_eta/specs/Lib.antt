pub mod Sheets
pub mod Functions
pub mod Structures
pub mod Units
pub mod Fields
pub mod Etas
