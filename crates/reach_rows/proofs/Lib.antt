pub mod Pairs
pub mod Closing
pub mod OneStar
pub mod Carrying
pub mod Adding
pub mod Several
pub mod Graph
pub mod Trials
