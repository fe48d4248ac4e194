pub mod Parts
pub mod Pis
pub mod Applications
pub mod Constants
pub mod Literals
pub mod Fields
pub mod Subjects
pub mod Projections
