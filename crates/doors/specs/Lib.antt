pub mod Passage
pub mod Network
pub mod MemDoors
pub mod Returns
pub mod MemNetworks
pub mod TcpDoors
