pub mod Written
pub mod Case
