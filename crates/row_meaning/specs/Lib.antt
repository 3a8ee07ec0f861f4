pub mod Pictures
pub mod Combinations
pub mod Groups
pub mod Ordering
pub mod Selection
pub mod Storing
pub mod Insertion
pub mod Changes
