pub mod Parts
pub mod Accepted
pub mod Whole
pub mod Sites
pub mod Calls
pub mod Copies
pub mod Merges
pub mod Sendings
