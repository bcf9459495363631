pub mod DraftFacts
pub mod LoopFacts
pub mod HeaderFacts
pub mod CallFacts
pub mod RoundFacts
pub mod SceneLines
pub mod GrammarFacts
pub mod WrittenFacts
