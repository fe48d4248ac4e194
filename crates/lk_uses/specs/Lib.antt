pub mod Closure
pub mod Listed
