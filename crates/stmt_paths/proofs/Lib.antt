pub mod Conditions
pub mod UnderOrder
pub mod AnyLength
pub mod PremiseTest
pub mod Numbering
pub mod Strength
pub mod WithinFree
pub mod AllOrders
