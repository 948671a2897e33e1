pub mod Records
pub mod Kinds
pub mod Blips
pub mod Picf
pub mod InlinePictures
