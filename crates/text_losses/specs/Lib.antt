pub mod Features
pub mod Counts
pub mod Lines
