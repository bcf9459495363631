pub mod Pages
pub mod Shares
pub mod Fails
pub mod Report
pub mod Verified
pub mod Text
pub mod Digests
