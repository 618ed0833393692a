pub mod Window
pub mod Dispatch
pub mod Rehearsal
pub mod Soonest
pub mod Leading
pub mod Failures
