pub mod GrownFacts
pub mod FitFacts
pub mod LimitFacts
pub mod OpenFacts
