pub mod Public
mod LineLemmas
mod ReadLemmas
