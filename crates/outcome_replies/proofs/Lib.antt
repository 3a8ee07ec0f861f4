pub mod Ending
pub mod Rows
pub mod Tags
pub mod Told
