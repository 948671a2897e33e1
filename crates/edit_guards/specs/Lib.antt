pub mod Policies
pub mod Laws
