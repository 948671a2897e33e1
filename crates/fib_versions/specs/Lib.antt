pub mod Versions
pub mod VersionRules
pub mod Early
pub mod PartNames
