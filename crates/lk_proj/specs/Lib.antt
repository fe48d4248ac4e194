pub mod Sheets
pub mod Nodes
pub mod Sorts
pub mod Infers
pub mod Reductions
