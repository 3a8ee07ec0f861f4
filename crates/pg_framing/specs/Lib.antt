pub mod Spelling
pub mod Replies
