pub mod Places
pub mod Numbers
pub mod Fills
pub mod Blocks
pub mod KindFields
