pub mod Closes
pub mod Going
pub mod Listing
pub mod Loops
pub mod Rows
pub mod Tables
pub mod Told
