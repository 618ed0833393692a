pub mod Terms
pub mod ActionMaps
pub mod Forms
pub mod SoundActions
pub mod Causes
