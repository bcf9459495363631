pub mod Layout
pub mod Rules
pub mod Commands
pub mod Images
pub mod Refusals
