pub mod Events
mod Ids
pub mod Foresight
pub mod OneRefusal
pub mod Alike
pub mod EachRead
mod Chosen
