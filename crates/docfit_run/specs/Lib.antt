pub mod Requests
pub mod Lines
pub mod Fitted
pub mod Endings
pub mod Completeness
pub mod Laws
