pub mod Places
pub mod Names
pub mod Pictures
pub mod Steps
pub mod Order
pub mod Files
pub mod Album
pub mod Laws
