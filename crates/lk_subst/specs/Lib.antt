pub mod Walks
pub mod Courses
pub mod Numbers
pub mod Levels
pub mod Runs
pub mod Parts
pub mod Parameters
