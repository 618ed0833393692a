pub mod Counted
pub mod Bytes
pub mod Deadline
pub mod Partner
pub mod Callers
pub mod Failures
