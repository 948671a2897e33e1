pub mod Plain
pub mod Out
pub mod Digits
pub mod Settings
pub mod Rows
