pub mod NewNames
pub mod Yes
pub mod Good
