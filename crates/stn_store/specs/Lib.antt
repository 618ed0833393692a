pub mod Bytes
pub mod Log
pub mod Store
pub mod Steps
pub mod Memory
pub mod Merging
pub mod Files
pub mod Look
