pub mod Going
pub mod NumberLines
pub mod NameLines
pub mod RowLines
pub mod ReadLaws
pub mod Reading
pub mod Refusals
