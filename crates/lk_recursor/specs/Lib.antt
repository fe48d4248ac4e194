pub mod Binders
pub mod Fronts
pub mod Comparisons
pub mod Hypotheses
pub mod Recursive
pub mod Telescopes
