pub mod Ranges
pub mod Tree
pub mod Fold
pub mod Same
pub mod Parts
