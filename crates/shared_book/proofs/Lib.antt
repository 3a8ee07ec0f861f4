pub mod Listing
pub mod Found
pub mod Ending
pub mod Fronts
pub mod LegalFronts
pub mod Making
pub mod Seating
pub mod Sending
