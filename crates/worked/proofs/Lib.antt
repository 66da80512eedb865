pub mod Steps
pub mod Tables
pub mod Whole
