pub mod Written
pub mod Larger
pub mod Together
