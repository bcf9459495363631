pub mod SliceFacts
