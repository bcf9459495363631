pub mod CallLaws
pub mod FilesFacts
pub mod PageSizeFacts
pub mod PagerFacts
pub mod SinkFacts
