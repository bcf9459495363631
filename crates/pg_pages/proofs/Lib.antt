pub mod CallFacts
pub mod MarkFacts
pub mod MarkLaws
pub mod PartFacts
