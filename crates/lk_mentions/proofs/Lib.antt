pub mod Numbers
pub mod Looked
pub mod Heads
pub mod Plainly
pub mod Projecting
pub mod TypeNames
