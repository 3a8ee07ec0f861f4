pub mod Bytes
pub mod Lexemes
pub mod Tokens
pub mod States
pub mod Scan
pub mod Front
