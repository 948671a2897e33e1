pub mod Settings
pub mod Story
pub mod Walks
pub mod Listing
pub mod Counts
pub mod MainText
pub mod Properties
pub mod Laws
