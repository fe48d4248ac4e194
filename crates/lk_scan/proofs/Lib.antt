pub mod Numbers
pub mod Passed
pub mod Blocks
pub mod Given
