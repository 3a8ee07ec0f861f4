pub mod Ascending
pub mod Cells
pub mod FirstWrites
pub mod Forgotten
pub mod Indexes
pub mod KeyLists
pub mod RecordLemmas
pub mod Scans
