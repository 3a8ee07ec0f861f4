pub mod Queries
pub mod Streams
pub mod Clients
