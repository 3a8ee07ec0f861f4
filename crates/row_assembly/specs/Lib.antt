pub mod Seen
pub mod Gathering
