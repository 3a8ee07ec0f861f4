pub mod Putting
pub mod Counting
