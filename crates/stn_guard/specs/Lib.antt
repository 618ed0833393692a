pub mod Owners
pub mod Guard
pub mod Making
pub mod Adding
pub mod Putting
pub mod Splitting
