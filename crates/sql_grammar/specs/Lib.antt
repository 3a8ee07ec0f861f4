pub mod Grammar
pub mod Reading
pub mod Words
pub mod Syntax
pub mod Steps
pub mod Statements
pub mod Limited
