pub mod FilledTexts
pub mod Filling
pub mod Reading
pub mod LiftedRules
pub mod LiftedTexts
pub mod LiftedFiles
