pub mod Layout
pub mod Rules
pub mod Slices
pub mod Refusals
