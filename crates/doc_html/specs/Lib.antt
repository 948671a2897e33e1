pub mod Head
pub mod Page
pub mod Writes
pub mod Laws
