pub mod Pieces
pub mod Names
pub mod Digits
pub mod Parts
pub mod Reading
pub mod Refusals
pub mod Tokens
