pub mod Bytes
pub mod Names
pub mod Trees
pub mod Scan
pub mod Cursors
pub mod FirstFault
