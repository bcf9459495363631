pub mod Rooms
pub mod Opened
pub mod Asking
pub mod Replays
pub mod Laws
