-- Lemmas for the answers.
pub mod Lists
pub mod BufferLemmas
pub mod IndexLemmas
