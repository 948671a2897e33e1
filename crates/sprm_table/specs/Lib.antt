pub mod Codes
pub mod Operands
pub mod Prms
pub mod Sprm
pub mod Cursor
pub mod Front
