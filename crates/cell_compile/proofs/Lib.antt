pub mod Demanding
pub mod Showing
pub mod Parting
pub mod Courses
