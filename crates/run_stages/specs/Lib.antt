pub mod Outcomes
pub mod Lines
pub mod Judged
pub mod Leaves
pub mod Stages
pub mod Reading
