pub mod Judging
pub mod Loads
pub mod Steps
