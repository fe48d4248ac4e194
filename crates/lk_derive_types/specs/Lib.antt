pub mod Asked
pub mod TypeRows
pub mod Parts
pub mod Binders
pub mod Spines
pub mod Projections
pub mod Subjects
