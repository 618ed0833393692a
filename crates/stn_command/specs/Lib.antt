pub mod Words
pub mod Change
pub mod Dispatch
pub mod Query
pub mod Steps
pub mod Guarding
pub mod NamedLines
pub mod Named
