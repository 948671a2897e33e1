pub mod Public
mod AnchorLemmas
mod PlaceLemmas
mod PathLemmas
mod LinkLemmas
mod FewLemmas
