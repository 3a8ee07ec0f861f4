pub mod Judging
pub mod Many
pub mod JudgeText
