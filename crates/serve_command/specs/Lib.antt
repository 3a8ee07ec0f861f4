pub mod Starting
pub mod Parts
pub mod Earlier
pub mod Line
pub mod Manning
pub mod Serving
