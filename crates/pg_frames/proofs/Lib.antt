pub mod ArenaFacts
pub mod BlockFacts
pub mod Laws
pub mod LinkFacts
pub mod ListFacts
pub mod MateFacts
pub mod RingFacts
