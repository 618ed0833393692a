pub mod Sessions
pub mod Exchanges
pub mod Taken
