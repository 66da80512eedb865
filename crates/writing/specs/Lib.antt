pub mod Counting
pub mod Counts
pub mod Records
pub mod Refusals
pub mod Theorems
pub mod Turns
pub mod Worked
pub mod Writer
