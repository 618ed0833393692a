pub mod Lacks
pub mod Failed
pub mod Decided
pub mod Lookups
pub mod SameLog
pub mod Compared
