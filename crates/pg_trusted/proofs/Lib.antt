pub mod ListedFacts
