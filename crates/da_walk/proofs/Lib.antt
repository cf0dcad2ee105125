pub mod Dispatch
pub mod Branching
pub mod Passing
pub mod Looping
pub mod Asked
