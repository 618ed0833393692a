pub mod Commands
pub mod Explanations
pub mod Given
pub mod Lines
pub mod Table
