pub mod LineFacts
pub mod TokenFacts
