pub mod Lists
pub mod Pages
pub mod Prcs
pub mod Sheets
