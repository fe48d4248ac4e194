pub mod Steps
pub mod Stacks
pub mod Unchanged
pub mod Closed
pub mod LevelCosts
pub mod LevelValues
