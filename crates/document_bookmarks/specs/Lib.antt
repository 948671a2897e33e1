pub mod Order
pub mod Bookmarks
pub mod Names
