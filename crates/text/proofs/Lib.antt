pub mod Places
pub mod Stops
pub mod FieldReads
pub mod Order
pub mod Runs
pub mod DigitLaws
pub mod GraphicLaws
pub mod FieldLaws
