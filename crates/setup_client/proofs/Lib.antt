pub mod BlockWalks
pub mod Spelled
pub mod Walks
