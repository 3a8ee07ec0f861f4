pub mod Quotients
pub mod Members
pub mod Nodes
pub mod Characters
pub mod Results
