pub mod Effect
pub mod Law
pub mod Steps
