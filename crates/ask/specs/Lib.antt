pub mod Ask
pub mod Meaning
