pub mod Lambdas
pub mod Marks
pub mod Openings
pub mod Sheets
pub mod Telescopes
pub mod Types
