pub mod Plan
pub mod Drawn
pub mod Passes
pub mod Spines
pub mod Cells
pub mod Opening
pub mod Closing
