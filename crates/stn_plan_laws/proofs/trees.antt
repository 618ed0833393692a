pub mod FirstFault
pub mod Written
pub mod Case
pub mod Writable
