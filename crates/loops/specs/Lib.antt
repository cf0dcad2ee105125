pub mod Fitting
pub mod Escape
pub mod Time
