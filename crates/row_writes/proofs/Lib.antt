pub mod Assigning
pub mod Checks
pub mod Ending
pub mod InOrder
pub mod Mentioning
pub mod Narrow
pub mod Steps
