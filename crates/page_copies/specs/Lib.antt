pub mod Places
pub mod Copies
pub mod Names
pub mod Pages
pub mod Laws
