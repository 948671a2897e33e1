pub mod Public
mod SmallLemmas
mod WalkLemmas
