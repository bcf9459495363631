pub mod Regions
pub mod ProcessStep
pub mod Kept
pub mod Laws
