pub mod Axioms
pub mod Sights
