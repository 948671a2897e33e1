pub mod Prcs
pub mod Sheets
