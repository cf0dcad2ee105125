pub mod Checking
pub mod Meaning
pub mod Loaded
