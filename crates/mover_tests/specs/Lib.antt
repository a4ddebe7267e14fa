pub mod Commands
pub mod Courses
pub mod Steps
