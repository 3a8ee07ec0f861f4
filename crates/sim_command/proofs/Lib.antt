pub mod Steps
pub mod Plays
