pub mod Gaps
pub mod Filled
pub mod Ranges
pub mod Laws
