pub mod Header
pub mod Sections
pub mod Load
pub mod Steps
pub mod Meaning
