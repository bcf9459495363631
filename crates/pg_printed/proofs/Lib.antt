pub mod TextFacts
pub mod HistoryFacts
pub mod ScheduleFacts
pub mod OrderFacts
