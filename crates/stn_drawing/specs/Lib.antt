pub mod Axis
pub mod Escape
pub mod Seen
pub mod Sheet
pub mod Ticks
