pub mod Found
pub mod Elements
pub mod Cycles
pub mod Refusing
pub mod Listing
pub mod InOrder
pub mod RepairFound
pub mod OneRepairs
