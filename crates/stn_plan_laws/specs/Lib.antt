pub mod Tree
pub mod Case
pub mod PlannedTimes
