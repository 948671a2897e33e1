pub mod Deletions
pub mod Places
pub mod Ranges
pub mod Strikes
pub mod Texts
