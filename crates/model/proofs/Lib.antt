pub mod Buffers
pub mod Entries
pub mod Fitting
pub mod Spelling
