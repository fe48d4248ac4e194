pub mod Elements
pub mod Lasts
pub mod Naming
pub mod EqShapes
pub mod Sheets
pub mod Testing
