pub mod Public
mod ReadLemmas
