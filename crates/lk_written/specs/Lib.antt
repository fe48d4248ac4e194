pub mod Line
pub mod Premises
pub mod Typing
pub mod Reducing
pub mod Equal
pub mod Section
pub mod Written
pub mod Outcomes
