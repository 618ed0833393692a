pub mod Chart
pub mod Drawn
pub mod Frame
pub mod Parts
pub mod Places
pub mod Rows
pub mod Seen
pub mod Style
