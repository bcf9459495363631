pub mod Blocks
pub mod Lends
pub mod Ownership
pub mod Parts
pub mod RowLends
