pub mod Stating
pub mod Heads
pub mod Turning
pub mod Likeness
pub mod Levels
pub mod Spines
pub mod Telling
