pub mod RoomFacts
pub mod CallFacts
pub mod NextFacts
pub mod AttachFacts
pub mod ExitFacts
pub mod PlayFacts
