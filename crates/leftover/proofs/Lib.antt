pub mod Sides
pub mod Words
