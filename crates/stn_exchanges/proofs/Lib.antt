pub mod Served
pub mod Joined
mod Keepings
