pub mod EntryLines
pub mod Holding
pub mod Letters
pub mod Passing
pub mod Printers
pub mod RuleLines
pub mod Texts
pub mod Variables
