pub mod Gathering
pub mod Views
pub mod Starts
