pub mod Fields
pub mod Fronts
pub mod Recursors
pub mod Majors
pub mod Rules
pub mod Candidates
pub mod Expansions
