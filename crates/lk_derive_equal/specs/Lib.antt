pub mod Sorts
pub mod Proofs
pub mod Binders
pub mod Subjects
pub mod Etas
pub mod Constants
pub mod Orders
