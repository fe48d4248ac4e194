pub mod Box
pub mod Declared
pub mod Expected
pub mod Falsehood
pub mod Guarded
