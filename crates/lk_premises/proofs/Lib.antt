pub mod Binding
pub mod Staying
pub mod Stacks
pub mod Given
pub mod Settled
pub mod AtHead
pub mod Comparing
pub mod Passing
