pub mod Locations
pub mod Formats
pub mod Flags
pub mod Changes
pub mod Styles
pub mod Laws
