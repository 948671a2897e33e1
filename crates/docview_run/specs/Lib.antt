pub mod Requests
pub mod Viewed
pub mod FileProperties
pub mod Pictured
pub mod Endings
pub mod Laws
pub mod Safe
