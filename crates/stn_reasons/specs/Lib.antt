pub mod Absent
pub mod Flags
pub mod Loosening
pub mod Reasons
pub mod Told
pub mod Waiting
