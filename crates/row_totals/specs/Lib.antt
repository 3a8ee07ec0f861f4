pub mod Tallies
pub mod Calls
pub mod Filling
pub mod Standing
