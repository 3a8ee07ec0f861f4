pub mod Entries
pub mod Places
pub mod Books
pub mod Turns
pub mod Calls
pub mod Lifts
pub mod Finish
pub mod Fronts
