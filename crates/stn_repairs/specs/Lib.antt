pub mod Repairs
pub mod Links
pub mod Dropped
pub mod Text
