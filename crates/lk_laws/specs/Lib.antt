pub mod Operations
pub mod Sides
pub mod Needs
pub mod Steps
