pub mod Public
mod OrderLemmas
mod BookmarkLemmas
mod MoveLemmas
mod NameLemmas
mod ApartLemmas
