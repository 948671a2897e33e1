pub mod Features
pub mod Losses
pub mod Lines
