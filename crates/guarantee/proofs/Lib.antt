pub mod Examples
pub mod Judging
pub mod Tables
pub mod Whole
pub mod Witnesses
