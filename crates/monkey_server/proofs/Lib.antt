pub mod Alone
pub mod Bounds
