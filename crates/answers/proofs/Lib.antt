pub mod TextLaws
pub mod Samples
