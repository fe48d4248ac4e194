pub mod Undenied
mod Added
mod Literal
mod Counting
