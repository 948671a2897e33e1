pub mod Skips
pub mod Fronts
pub mod Laws
