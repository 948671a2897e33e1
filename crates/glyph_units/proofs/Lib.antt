pub mod Public
mod RunLemmas
mod ScalarLemmas
mod SizeLemmas
