pub mod Sets
pub mod Values
pub mod Properties
pub mod Names
pub mod Laws
