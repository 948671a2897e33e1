pub mod Number
pub mod Plc
pub mod Rules
pub mod Places
pub mod Together
pub mod Sums
