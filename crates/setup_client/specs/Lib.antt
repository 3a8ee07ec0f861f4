pub mod Blocks
pub mod Client
pub mod Errors
pub mod Spelled
