pub mod Effects
pub mod Printing
