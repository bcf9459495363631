pub mod Limits
pub mod Layouts
pub mod Items
pub mod Opening
pub mod Ends
pub mod Fits
pub mod Drafts
