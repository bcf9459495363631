pub mod RuleFacts
pub mod PartsFacts
pub mod CandidateFacts
pub mod GrammarFacts
pub mod DigestFacts
pub mod SignatureLaws
