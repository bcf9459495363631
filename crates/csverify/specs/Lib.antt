pub mod Words
pub mod Ending
pub mod EndingView
pub mod Run
