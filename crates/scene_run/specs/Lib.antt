pub mod Needs
pub mod Turns
pub mod Parts
pub mod Starts
pub mod Runs
pub mod Texts
pub mod Ending
