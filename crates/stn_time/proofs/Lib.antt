pub mod Each
pub mod Forms
pub mod Prints
pub mod Sums
