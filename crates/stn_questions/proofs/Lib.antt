pub mod KnownOnce
pub mod Lasting
pub mod Listing
pub mod ReadyLists
pub mod Reasons
pub mod Foretold
