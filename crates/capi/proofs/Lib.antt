pub mod Telling
pub mod Room
