pub mod Choosing
pub mod Following
pub mod Joining
pub mod Loads
pub mod Rowing
pub mod Same
pub mod Turning
