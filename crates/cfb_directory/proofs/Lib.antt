pub mod Public
mod ReachLemmas
mod LinkLemmas
mod OrderLemmas
mod NameLemmas
mod SortedLemmas
mod EntryLemmas
