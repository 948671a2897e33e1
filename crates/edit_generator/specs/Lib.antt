pub mod Generated
pub mod FewRuns
pub mod GeneratedDocuments
pub mod SmallSaves
