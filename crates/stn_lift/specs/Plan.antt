pub mod Bytes
pub mod Tokens
pub mod Lines
pub mod Steps
pub mod Faults
pub mod Views
pub mod Failures
