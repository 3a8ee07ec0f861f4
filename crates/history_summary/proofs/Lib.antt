pub mod Writers
pub mod Prefixes
pub mod Commits
pub mod Begins
pub mod Weak
pub mod Counted
pub mod Lines
pub mod Unique
