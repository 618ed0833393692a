pub mod Arcs
pub mod Culprit
pub mod Directions
pub mod Distances
pub mod Listing
pub mod Named
pub mod Relaxation
pub mod Search
