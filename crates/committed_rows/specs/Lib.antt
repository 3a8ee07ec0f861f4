pub mod Rows
pub mod Start
pub mod Defining
pub mod Walk
