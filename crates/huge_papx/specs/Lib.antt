pub mod Lists
pub mod Data
pub mod Definitions
pub mod Offsets
pub mod Rows
pub mod Defined
pub mod Texts
