pub mod CatchingUp
pub mod Opening
pub mod Rising
pub mod Settled
pub mod Sound
pub mod Tightening
pub mod Rows
