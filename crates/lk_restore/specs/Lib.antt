pub mod Originals
pub mod Marks
pub mod Steady
