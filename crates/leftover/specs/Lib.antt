pub mod Leaving
pub mod Left
pub mod Noting
