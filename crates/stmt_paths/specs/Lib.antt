pub mod Execution
pub mod Premises
