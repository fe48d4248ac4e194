pub mod HeadSteps
pub mod Inversion
pub mod NoNew
pub mod Scans
pub mod Scopes
pub mod Sorts
pub mod Texts
