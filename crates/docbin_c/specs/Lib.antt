pub mod Answers
pub mod Calls
pub mod Rooms
pub mod Shown
