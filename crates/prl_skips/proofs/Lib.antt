pub mod Public
mod PutLemmas
mod RangeLemmas
mod SkipLemmas
mod RightLemmas
mod WalkLemmas
mod OneLemmas
