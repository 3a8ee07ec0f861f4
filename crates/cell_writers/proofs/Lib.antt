pub mod Last
pub mod Noted
pub mod Numbering
pub mod PairLemmas
pub mod PairPlaces
pub mod Taken
