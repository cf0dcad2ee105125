pub mod PathRows
pub mod Mentions
pub mod NoRef
pub mod Iffs
pub mod Steps
