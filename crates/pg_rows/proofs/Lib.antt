pub mod Crossing
pub mod Memory
pub mod PartFacts
pub mod Sharing
