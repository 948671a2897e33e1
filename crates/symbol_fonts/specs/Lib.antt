pub mod Characters
pub mod Fonts
pub mod Laws
