pub mod Lambdas
pub mod Opened
pub mod QuotientForms
pub mod NumberForms
