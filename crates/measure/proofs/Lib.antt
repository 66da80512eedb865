pub mod Filling
pub mod Folding
pub mod Symbols
pub mod Zipping
