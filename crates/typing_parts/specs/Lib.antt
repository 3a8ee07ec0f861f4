pub mod Narrow
pub mod Numbered
pub mod Marked
pub mod Readings
