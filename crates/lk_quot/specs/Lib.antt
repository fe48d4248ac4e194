pub mod Sheets
pub mod Redexes
pub mod Cores
pub mod Constants
pub mod Made
pub mod Types
pub mod Units
pub mod Equality
