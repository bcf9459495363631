pub mod Workers
pub mod Sound
pub mod Words
pub mod Made
