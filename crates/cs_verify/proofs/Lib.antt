pub mod PageFacts
pub mod ReportFacts
pub mod ShareFacts
pub mod TextFacts
