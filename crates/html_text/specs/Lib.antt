pub mod Tokens
pub mod Reading
pub mod Safe
pub mod Laws
