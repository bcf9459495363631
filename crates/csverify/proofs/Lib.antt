pub mod EndingFacts
pub mod WordFacts
