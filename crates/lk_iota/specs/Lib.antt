pub mod Sheets
pub mod Redexes
pub mod OnlyRule
pub mod RightSides
pub mod Expansions
pub mod Iotas
