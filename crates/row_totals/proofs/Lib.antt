pub mod Rest
pub mod Meanings
pub mod Fillings
pub mod Told
pub mod Rows
pub mod Collecting
