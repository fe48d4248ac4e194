pub mod Giving
pub mod Shapes
pub mod Sheets
pub mod Spines
