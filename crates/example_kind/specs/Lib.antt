pub mod Parities
