pub mod Giving
pub mod Lines
pub mod Programs
pub mod Ranks
pub mod Sheets
pub mod Walks
