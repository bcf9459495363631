pub mod Lookups
pub mod RegionsNow
pub mod Places
pub mod Steps
pub mod Copies
pub mod Kept
pub use Rattle.pg_bytes.specs.PageSize
pub use Rattle.pg_bytes.specs.Order
