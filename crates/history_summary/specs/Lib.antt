pub mod Latest
pub mod Counts
pub mod Line
pub mod Walk
