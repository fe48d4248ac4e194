pub mod Turns
pub mod Alike
