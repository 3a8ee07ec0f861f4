pub mod Operators
pub mod Values
pub mod Kinds
pub mod Lent
pub mod Answers
