pub mod CutLog
pub mod NoWide
