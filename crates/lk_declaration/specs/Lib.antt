pub mod Asked
pub mod Courses
pub mod Checked
