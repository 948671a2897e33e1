pub mod Places
pub mod Items
pub mod Meaning
pub mod Skipped
pub mod Apart
pub mod Lifted
pub mod Loaded
pub mod Filled
