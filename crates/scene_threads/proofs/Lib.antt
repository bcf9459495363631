pub mod EachFacts
pub mod HistoryFacts
pub mod MadeFacts
pub mod NeedFacts
pub mod WordFacts
