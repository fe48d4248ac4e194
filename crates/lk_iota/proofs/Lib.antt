pub mod Sheets
pub mod Splits
pub mod OnlyRule
pub mod Steady
pub mod RightSides
pub mod Looking
pub mod Going
pub mod Expanding
