pub mod Together
pub mod Plans
pub mod Narrow
