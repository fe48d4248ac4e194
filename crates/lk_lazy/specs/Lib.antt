pub mod Heads
pub mod Lazies
pub mod Sheets
pub mod Spines
