pub mod Sheets
pub mod Lambdas
pub mod Opened
pub mod Constants
pub mod Rows
