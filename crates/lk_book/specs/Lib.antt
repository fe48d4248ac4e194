pub mod Course
pub mod Courses
pub mod File
pub mod Limited
pub mod Passing
pub mod Reading
pub mod ReadingTexts
pub mod Texts
