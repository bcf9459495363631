pub mod IndexFacts
