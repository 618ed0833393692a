mod Fits
mod OfStn
pub mod Shapes
mod Values
