pub mod Public
mod UrlLemmas
