pub mod Marks
pub mod MarkSteps
pub mod Pages
pub use Rattle.pg_cache.specs.Cache
pub use Rattle.pg_cache.specs.Gives
pub use Rattle.pg_cache.specs.Steps
