pub mod Visiting
pub mod Attending
