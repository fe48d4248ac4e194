pub mod Alike
pub mod Lets
pub mod Pis
pub mod Spines
