pub mod AxisEnd
pub mod Drawing
pub mod Noting
pub mod Order
pub mod Times
