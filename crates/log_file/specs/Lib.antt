pub mod Text
pub mod Logging
