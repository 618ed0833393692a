pub mod Joining
pub mod Connections
pub mod Visits
pub mod Peer
