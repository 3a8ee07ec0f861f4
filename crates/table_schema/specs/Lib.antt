pub mod Columns
pub mod Named
