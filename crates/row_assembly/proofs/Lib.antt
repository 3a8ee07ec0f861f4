pub mod Items
pub mod Steps
pub mod Walking
pub mod Sizes
pub mod Keeping
