pub mod Only
pub mod Redexes
pub mod Stages
pub mod Taken
pub mod Expanding
