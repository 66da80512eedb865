pub mod LetterSets
pub mod Theorems
