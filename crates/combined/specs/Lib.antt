pub mod Pairs
pub mod Theorems
pub mod Turning
