pub mod Locals
pub mod Walks
