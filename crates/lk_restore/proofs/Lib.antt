pub mod Firsts
pub mod Params
pub mod Marking
pub mod Kept
pub mod Spines
pub mod Steps
pub mod Aside
pub mod Applied
