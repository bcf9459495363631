pub mod RuleFacts
pub mod DirectoryFacts
