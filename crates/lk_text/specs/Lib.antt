pub mod Marks
pub mod Named
pub mod Names
pub mod Policy
pub mod Replayed
pub mod Table
pub mod Text
