pub mod Runs
pub mod Simulations
pub mod Playing
