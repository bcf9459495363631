pub mod Order
pub mod Layout
pub mod Rules
pub mod Listed
pub mod Refusals
