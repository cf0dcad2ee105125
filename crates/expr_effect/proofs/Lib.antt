pub mod Operands
pub mod Laws
pub mod Rust
pub mod Meaning
pub mod Facts
pub mod Quiet
