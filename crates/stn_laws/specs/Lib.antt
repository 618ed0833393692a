pub mod Reports
pub mod ReadBack
pub mod Among
pub mod Runs
pub mod Guarded
pub mod Reception
pub mod Executions
