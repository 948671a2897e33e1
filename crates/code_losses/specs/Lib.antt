pub mod Tallies
pub mod Counted
pub mod Pages
pub mod Prcs
pub mod Losses
