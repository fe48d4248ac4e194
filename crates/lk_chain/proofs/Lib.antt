pub mod Alike
pub mod Arguments
pub mod Closed
pub mod Innermost
pub mod Pushing
pub mod Puttings
pub mod Retyped
