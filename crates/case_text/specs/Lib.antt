pub mod Texts
pub mod RowTexts
