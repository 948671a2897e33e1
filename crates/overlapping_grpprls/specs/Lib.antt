pub mod Walks
pub mod Keeping
