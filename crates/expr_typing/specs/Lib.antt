pub mod Scope
pub mod Found
