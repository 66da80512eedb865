pub mod Cutting
pub mod Texts
pub mod RowLines
pub mod ChoiceLines
