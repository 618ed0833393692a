pub mod Fronts
pub mod Cuts
mod OneFeeding
