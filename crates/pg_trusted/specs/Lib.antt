pub mod TrustStep
pub mod Kept
