pub mod Scoped
pub mod LookedThrough
