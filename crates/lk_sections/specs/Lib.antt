pub mod Rules
pub mod Lines
pub mod Sections
pub mod Stored
