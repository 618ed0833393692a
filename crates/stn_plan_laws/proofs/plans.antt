pub mod FromCauses
pub mod PlannedTimes
