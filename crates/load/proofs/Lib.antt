pub mod Finishing
pub mod Loading
pub mod GoodLoad
pub mod Refusals
pub mod Sample
