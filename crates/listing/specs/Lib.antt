pub mod Lines
pub mod Printing
pub mod Refusals
pub mod Stages
pub mod Tables
pub mod Words
