pub mod Rows
pub mod Cursors
pub mod Scanned
pub mod NameLemmas
pub mod Faults
