pub mod Turns
pub mod Orders
pub mod Owned
pub mod Answered
pub mod Errors
pub mod Told
pub mod Reports
