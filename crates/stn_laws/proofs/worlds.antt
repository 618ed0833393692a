pub mod Runs
mod Alike
mod Entries
mod Lawful
mod EachRun
mod Guarded
mod GuardSteps
