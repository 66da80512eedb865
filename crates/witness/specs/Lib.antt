pub mod Answers
pub mod Holding
pub mod Laws
pub mod Refusals
pub mod Rows
pub mod Seats
