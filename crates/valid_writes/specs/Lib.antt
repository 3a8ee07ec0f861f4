pub mod Store
pub mod Desk
pub mod Owning
pub mod Seats
pub mod Beginnings
