pub mod Zeros
pub mod Plain
