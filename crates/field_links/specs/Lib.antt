pub mod OpenFields
pub mod Words
pub mod Instructions
pub mod Characters
pub mod Urls
pub mod Kept
pub mod Laws
