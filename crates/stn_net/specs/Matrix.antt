pub mod Table
pub mod Tightest
pub mod Closed
pub mod Way
