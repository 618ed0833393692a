pub mod Invariant
pub mod Work
pub mod Walk
pub mod Rows
