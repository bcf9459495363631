pub mod Fails
pub mod Parts
pub mod Candidates
pub mod Rules
pub mod Signature
pub mod Signed
pub mod Refusals
pub mod Digests
