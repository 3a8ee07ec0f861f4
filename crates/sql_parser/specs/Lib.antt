pub mod Cursor
pub mod Reads
pub mod Levels
pub mod Nests
pub mod Parts
