pub mod Answers
pub mod Errors
pub mod Limits
pub mod Printing
pub mod Taken
pub mod Theorems
