pub mod Sound
pub mod Columns
pub mod Numbers
pub mod Lists
