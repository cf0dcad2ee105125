pub mod NameText
