pub mod Buffer
pub mod Index
