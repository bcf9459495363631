pub mod Counts
pub mod Fields
pub mod Ranges
pub mod Codes
pub mod Rules
pub mod PageSize
pub mod Order
