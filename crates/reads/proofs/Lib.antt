pub mod Quiet
pub mod Trees
pub mod Scan
pub mod Answers
