pub mod Lambdas
pub mod Expanding
pub mod UnitLike
pub mod Structured
pub mod Zeros
pub mod AtConstructor
pub mod FieldReads
