pub mod StepFacts
pub mod GuardFacts
pub mod ListFacts
pub mod OverlapFacts
pub mod ExitFacts
pub mod OrderFacts
pub mod ApartFacts
