pub mod Json
pub mod Hex
pub mod Stories
pub mod Values
pub mod Keys
pub mod Shapes
pub mod Scripts
pub mod Laws
