pub mod HashPages
pub mod Layout
pub mod Fields
pub mod Rules
pub mod Directory
pub mod Refusals
