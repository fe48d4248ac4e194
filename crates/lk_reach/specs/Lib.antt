pub mod Reach
pub mod Axioms
pub mod Computed
