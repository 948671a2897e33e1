pub mod Paths
pub mod Events
pub mod Turns
pub mod Openings
pub mod Laws
