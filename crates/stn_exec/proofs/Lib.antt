pub mod Effects
pub mod Blocks
pub mod Outputs
pub mod Scripts
