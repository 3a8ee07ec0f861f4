pub mod WorkedRow
pub mod Pairs
