pub mod Accounts
pub mod Clients
pub mod Seats
pub mod Halls
