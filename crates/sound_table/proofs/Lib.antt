pub mod Example
pub mod Yields
pub mod Names
pub mod Defaults
pub mod Columns
pub mod Keys
pub mod WellFormed
