pub mod Further
pub mod Begun
