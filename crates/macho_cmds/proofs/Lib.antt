pub mod RuleFacts
pub mod WalkFacts
pub mod ImageFacts
