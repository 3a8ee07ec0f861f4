pub mod Marking
pub mod Asking
pub mod Mentioning
