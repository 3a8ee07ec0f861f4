pub mod Numbers
pub mod Filling
pub mod Ending
pub mod Reading
pub mod Rows
pub mod Items
pub mod Setting
