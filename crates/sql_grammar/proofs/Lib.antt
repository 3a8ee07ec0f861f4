mod Letters
pub mod Taken
pub mod Sound
pub mod Follow
pub mod Complete
pub mod Whole
pub mod Rules
pub mod Patterns
pub mod Exactly
pub mod Messages
