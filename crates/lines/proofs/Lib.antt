pub mod NumberLaws
pub mod NameLaws
pub mod WordLaws
pub mod RowLaws
pub mod InRange
pub mod Told
pub mod Refusals
