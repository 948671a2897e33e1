pub mod Public
mod FoundLemmas
mod SharingLemmas
mod ContentLemmas
mod LoadLemmas
mod GatherLemmas
mod SingleLemmas
mod UniqueLemmas
mod SameNameLemmas
mod AddLemmas
mod StoredLemmas
mod OuterLemmas
