pub mod Capped
pub mod Limits
pub mod Theorems
