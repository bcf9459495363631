pub mod Hands
pub mod OwnParts
pub mod Runs
pub mod Fails
pub mod Asked
pub mod Reports
pub mod Endings
