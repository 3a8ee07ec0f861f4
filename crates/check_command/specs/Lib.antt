pub mod Lines
pub mod Verdict
pub mod Checks
pub mod JudgeLines
pub mod JudgeVerdict
pub mod Judges
