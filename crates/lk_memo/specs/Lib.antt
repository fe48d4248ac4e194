pub mod LastAnswers
pub mod Keys
pub mod Slots
pub mod Lasting
pub mod Entries
