pub mod Bounds
pub mod Listing
pub mod Reading
pub mod Steps
