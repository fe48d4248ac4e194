pub mod Rule
pub mod Steps
pub mod Seats
pub mod Texts
pub mod Reading
pub mod Answers
pub mod Sample
