pub mod Known
pub mod Deadlines
