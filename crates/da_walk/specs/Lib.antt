pub mod Statement
pub mod Steps
