pub mod Unlisted
pub mod Reading
