pub mod Sames
pub mod Sheets
pub mod Spines
