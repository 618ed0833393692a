pub mod Event
pub mod Difference
pub mod Matrix
pub mod Schedule
pub mod Horizon
pub mod Failures
pub mod Windows
pub mod Ranges
