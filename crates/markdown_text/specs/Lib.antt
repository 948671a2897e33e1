pub mod Lines
pub mod Tokens
pub mod Reading
pub mod Laws
