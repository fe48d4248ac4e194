pub mod Forms
pub mod Projections
pub mod MajorHeads
