pub mod References
pub mod Marks
pub mod Bookmarks
pub mod Sheets
pub mod Losses
