pub mod Ending
pub mod Holding
pub mod Popped
pub mod Running
