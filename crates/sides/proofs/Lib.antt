pub mod Ending
pub mod Finding
pub mod Flat
pub mod Keeps
pub mod Letters
