pub mod PropertySet
pub mod Form
pub mod Values
pub mod Texts
pub mod Written
pub mod Laws
