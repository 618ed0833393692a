pub mod Splits
pub mod Digits
pub mod Readings
pub mod Growing
