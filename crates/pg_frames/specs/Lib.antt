pub mod Arena
pub mod Blocks
pub mod Lends
pub mod Links
pub mod Queues
