mod Adding
mod Closes
mod Ends
pub mod Formed
mod Judged
mod Popping
mod Runs
