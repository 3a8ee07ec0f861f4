pub mod Twins
pub mod Widths
pub mod Places
pub mod Seen
