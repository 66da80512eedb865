pub mod Asking
pub mod Replies
pub mod Rows
