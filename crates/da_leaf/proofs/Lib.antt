pub mod Targets
pub mod Leaves
pub mod Written
