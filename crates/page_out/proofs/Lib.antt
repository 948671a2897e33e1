pub mod Public
mod PrintLemmas
mod EncodingLemmas
