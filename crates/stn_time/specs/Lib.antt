pub mod Failures
pub mod Near
pub mod Text
pub mod Time
pub mod TimeOf
