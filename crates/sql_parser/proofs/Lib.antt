pub mod Turns
pub mod Exact
pub mod Repeats
