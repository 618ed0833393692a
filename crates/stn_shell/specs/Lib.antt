pub mod Asking
pub mod Carried
pub mod Coprocess
pub mod Executed
pub mod Lines
pub mod Outside
