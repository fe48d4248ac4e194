pub mod Begun
pub mod Course
pub mod Derived
pub mod Held
pub mod Limited
pub mod Placed
pub mod Standing
pub mod Trace
