pub mod Merging
pub mod Walks
pub mod Timing
pub mod Written
pub mod Shared
pub mod Reasons
pub mod Marked
pub mod Passed
