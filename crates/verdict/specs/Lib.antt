pub mod Sheets
pub mod Verdict
pub mod Meaning
