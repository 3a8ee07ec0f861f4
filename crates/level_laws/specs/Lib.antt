pub mod Promises
pub mod Shown
