pub mod Answered
pub mod Progress
pub mod Takes
pub mod Saved
pub mod SoundLog
