pub mod Promised
pub mod Earlier
pub mod Agreeing
pub mod Following
pub mod Offering
pub mod Showing
pub mod Rising
pub mod OneNext
