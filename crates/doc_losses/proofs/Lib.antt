pub mod Public
mod CpLemmas
mod NumberLemmas
mod ListingLemmas
mod ReferenceLemmas
mod BookmarkLemmas
mod LossLemmas
mod NothingLemmas
mod NoneLemmas
