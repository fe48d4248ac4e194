pub mod Clears
pub mod Earlier
pub mod NestedStays
pub mod Refusals
pub mod Spelled
pub mod Stays
pub mod Verdicts
pub mod Worked
