pub mod PlaceFacts
pub mod HalfFacts
pub mod RuleFacts
pub mod CountFacts
