pub mod Session
pub mod Serving
pub mod Exchange
pub mod Turns
pub mod Failures
