pub mod Rules
pub mod Breaches
pub mod Found
pub mod Notes
pub mod Keys
pub mod Rows
pub mod Orders
pub mod TableKeys
