pub mod Opens
pub mod UnitLine
pub mod Reaching
pub mod TextLine
pub mod StructureLine
pub mod FieldPairs
