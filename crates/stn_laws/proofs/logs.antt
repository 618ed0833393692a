pub mod Unsaved
mod OneEnding
mod Refused
mod OneLog
mod SomeLog
