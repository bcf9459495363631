pub mod RuleFacts
pub mod CountFacts
pub mod SplitFacts
pub mod CostFacts
pub mod PageSizeFacts
