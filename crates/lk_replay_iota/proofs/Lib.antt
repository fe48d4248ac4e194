pub mod AtConstructor
pub mod FieldForms
pub mod Applying
pub mod RuledForms
pub mod MajorForms
pub mod RuleForms
pub mod CandidateForms
pub mod ExpansionForms
