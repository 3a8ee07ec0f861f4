pub mod Faulty
pub mod Law
