pub mod Course
pub mod Reading
pub mod Writing
pub mod Statements
pub mod Laws
