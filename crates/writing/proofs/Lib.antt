pub mod Puts
pub mod Spellings
pub mod ReadBack
pub mod FieldLaws
