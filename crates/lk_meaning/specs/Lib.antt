pub mod Booleans
pub mod FakedAddition
pub mod Falsehood
pub mod Families
pub mod Rigid
pub mod TypeForms
