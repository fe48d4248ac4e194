pub mod Looseness
pub mod Occurrences
pub mod Structured
pub mod Fitting
