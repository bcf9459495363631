pub mod DigestLaws
pub mod Digests
pub mod Kinds
pub mod Room
pub mod RoomLaws
