pub mod SmallWords
pub mod SmallActions
pub mod SmallDomain
pub mod FromCauses
