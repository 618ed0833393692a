pub mod World
pub mod Sites
pub mod Faults
pub mod Parts
pub mod Whole
pub mod Steps
