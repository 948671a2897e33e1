pub mod Public
mod TestLemmas
mod ListLemmas
mod NumberLemmas
mod ByteListLemmas
mod PlcLemmas
mod RuleLemmas
mod PlaceLemmas
mod TogetherLemmas
