pub mod Counting
pub mod Cutting
pub mod Filling
pub mod Finding
pub mod Keeping
