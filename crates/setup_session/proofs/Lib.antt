pub mod Alone
pub mod Amiss
