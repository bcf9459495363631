pub mod HistoryFacts
pub mod RunningFacts
pub mod OpeningFacts
pub mod AskFacts
pub mod StartFacts
pub mod SoloFacts
pub mod SmallFacts
