pub mod Compressed
pub mod Digits
pub mod Gathered
pub mod Paragraph
pub mod Shown
pub mod Halves
