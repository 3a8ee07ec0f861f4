pub mod Targets
pub mod Rows
pub mod Reads
