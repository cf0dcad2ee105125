pub mod Below
pub mod Numbers
pub mod Items
pub mod Steps
pub mod Named
pub mod Classes
