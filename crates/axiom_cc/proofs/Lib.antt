pub mod Sights
pub mod Marking
