pub mod Holding
pub mod Marks
pub mod Seeking
