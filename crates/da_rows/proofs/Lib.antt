pub mod Asking
pub mod Parts
