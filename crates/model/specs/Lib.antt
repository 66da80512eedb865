pub mod Buffers
pub mod Laws
pub mod Names
pub mod Refusals
pub mod Spelling
pub mod Witnesses
