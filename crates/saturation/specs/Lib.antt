pub mod Views
pub mod Pairs
pub mod Laws
