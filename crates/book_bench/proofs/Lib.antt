pub mod ListFacts
pub mod HandFacts
pub mod OwnPartsFacts
pub mod RunFacts
pub mod CountFacts
