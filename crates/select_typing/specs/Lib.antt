pub mod Entries
pub mod Lists
pub mod Outputs
pub mod Parts
pub mod Read
