pub mod Setups
