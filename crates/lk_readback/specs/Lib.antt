pub mod Statable
pub mod Within
pub mod Items
pub mod Stated
pub mod Trimmed
