pub mod Directory
pub mod Reach
pub mod Links
pub mod Seen
pub mod StreamEntries
pub mod Storages
pub mod Order
pub mod Entries
