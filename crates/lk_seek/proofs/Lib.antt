pub mod Visits
pub mod Truths
