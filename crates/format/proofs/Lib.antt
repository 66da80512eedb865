pub mod Words
pub mod Lines
pub mod Runs
pub mod Refusals
pub mod Decided
pub mod Lengths
