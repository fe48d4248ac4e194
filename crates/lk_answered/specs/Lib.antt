pub mod Operations
pub mod NewNames
