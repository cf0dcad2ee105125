pub mod Kinds
pub mod Words
pub mod Steps
pub mod Named
