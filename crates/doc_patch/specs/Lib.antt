pub mod Places
pub mod Changes
pub mod Makes
pub mod Modifiers
pub mod Becomes
pub mod Parts
