pub mod Seats
pub mod Rows
pub mod Stars
pub mod Sights
pub mod Marks
