pub mod ListFacts
pub mod ActFacts
pub mod ReplyFacts
pub mod ProcessFacts
pub mod ReplayFacts
pub mod ReadingFacts
pub mod AttachFacts
pub mod RoomSums
