pub mod Laws
pub mod Ledgers
pub mod Session
pub mod Codes
pub mod Edited
pub mod Started
pub mod Fast
pub mod Written
