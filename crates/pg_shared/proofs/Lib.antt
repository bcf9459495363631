pub mod ReceiptFacts
pub mod SpineFacts
pub mod ProcessCellFacts
pub mod TrustCellFacts
pub mod FileCellFacts
pub mod OpenFacts
pub mod CloseFacts
