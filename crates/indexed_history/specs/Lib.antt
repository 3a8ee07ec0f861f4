pub mod Writers
pub mod Index
pub mod Keys
pub mod Parts
