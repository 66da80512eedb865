pub mod Closing
pub mod Guarantee
pub mod Worked
