pub mod Applied
pub mod Counting
pub mod Full
pub mod Long
pub mod Pairing
pub mod Sheets
pub mod UnitLike
