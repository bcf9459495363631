pub mod Layout
pub mod Rules
pub mod Index
pub mod Refusals
