pub mod Public
mod ListLemmas
mod PlaceLemmas
mod CodeLemmas
mod RangeLemmas
mod StrikeLemmas
mod NoneLemmas
mod OneLemmas
