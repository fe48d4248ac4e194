pub mod Numbering
pub mod State
pub mod Held
