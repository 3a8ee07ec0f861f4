pub mod Visits
pub mod Workers
pub mod Pairs
