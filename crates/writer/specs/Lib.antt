pub mod Following
pub mod Solutions
