pub mod Conflict
pub mod Seen
pub mod Style
pub mod Walk
