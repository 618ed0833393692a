pub mod Commands
pub mod Keeping
pub mod Hints
