pub mod AxisGaps
pub mod Escaping
pub mod Grown
pub mod Shown
