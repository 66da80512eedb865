pub mod Refusals
pub mod StateMaps
pub mod Theorems
