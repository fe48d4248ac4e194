pub mod Lambdas
pub mod Openings
pub mod Unfolding
pub mod Applications
pub mod Quotients
pub mod Operations
pub mod Numbers
