pub mod Units
pub mod Glyphs
