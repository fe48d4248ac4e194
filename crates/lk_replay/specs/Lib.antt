pub mod Lines
pub mod Bodies
pub mod Laws
pub mod Outcomes
pub mod Derived
