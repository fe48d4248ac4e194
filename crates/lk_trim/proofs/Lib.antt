pub mod Appending
pub mod Places
pub mod Numbered
pub mod Visits
pub mod Lines
pub mod Ancestors
pub mod Entering
pub mod Chains
