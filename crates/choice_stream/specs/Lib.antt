pub mod Choices
pub mod Seeds
