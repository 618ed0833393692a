pub mod Explained
pub mod Subjects
pub mod Table
