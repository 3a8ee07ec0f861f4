pub mod ColumnLists
pub mod Keyed
pub mod KeyNames
