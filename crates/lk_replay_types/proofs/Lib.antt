pub mod Applied
pub mod FieldSteps
pub mod SubjectKinds
