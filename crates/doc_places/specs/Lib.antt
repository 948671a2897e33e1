pub mod Grid
pub mod Looks
pub mod Lists
pub mod Cells
pub mod Places
pub mod Laws
