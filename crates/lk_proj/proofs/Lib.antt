pub mod FieldPis
pub mod ParameterPis
pub mod Subjects
pub mod Sheets
pub mod Reducing
